mod Joining
