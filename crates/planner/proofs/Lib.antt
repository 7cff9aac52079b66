mod Standings
mod AfterMarks
mod Laws
mod Reading
